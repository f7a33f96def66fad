use Rattle.std.proofs.Common.{◌≡◌, ◌<◌, ◌^◌, ◌∙◌, List, length, take, sym, subst, arith, refl}
use Rattle.std.specs.Prelude.{All}
use Rattle.std.proofs.lemmas.List.{length-set, length-take-le, take_all}
use Rattle.std.proofs.lemmas.List.Elements.{All-nil}
use Rattle.std.proofs.lemmas.Result.{IfOk-weaker}
use Rattle.fits_hdu.specs.State.{HduState, IsDescribed}
use Rattle.fits_passing.specs.Work.{name_reads}
use Rattle.fits_hdu.specs.Work.{IsOpened}
use Rattle.fits_hdu.proofs.StateLemmas.{parts_read}
use Rattle.fits_session.specs.NameTable.{Stands}
use Rattle.fits_session.proofs.HadLemmas.{had_named}
use Rattle.fits_making.proofs.MakingLemmas.{lasts_read}
use Rattle.fits_session.proofs.NamingLemmas.{all_more, first_after, name_kept, ok_or, opened_more, rest_after, with_entry}
use Rattle.fits_session.proofs.StandingLemmas.{entered_as, few_told, one_more_stands}
use Rattle.fits_session.proofs.StateLemmas.{absences_of-same, hdus_of-same}
use Rattle.fits_passing.proofs.NameCountLemmas.{table_empty}
use Rattle.fits_session.proofs.session.naming.name_all.Goals as goal

pub loop-i-init : goal.loop-i-init
loop-i-init c = record {
  hdus = refl;
  absences = refl;
  count = refl;
  rest = refl;
  stands = record { table = table_empty c.new-counts.result.numbers.entries c.new-counts.ensures; placed = All-nil _ };
  described = All-nil IsDescribed;
  had = λ holding had. had;
  opened = λ opened. All-nil (IsOpened name_reads);
}

pub index_mut-hdu-requires : goal.index_mut-hdu-requires
index_mut-hdu-requires c = omega (arith, c.loop-i-test.true, c.len-i-end.ensures, c.loop-i.invariant.count, c.loop-i.hdus.ok.0, c.args.hdus.now.ok.0)

pub enter-requires : goal.enter-requires
enter-requires c =
    let few : length (take c.loop-i.i c.loop-i.hdus.items) < 2 ^ 63 = omega (arith, length-take-le c.loop-i.i c.loop-i.hdus.items (omega (arith, c.loop-i-test.true, c.len-i-end.ensures, c.loop-i.invariant.count, c.args.hdus.now.ok.0)), c.loop-i.invariant.count) in
    record { few = few_told (take c.loop-i.i c.loop-i.hdus.items) c.loop-i.counts.numbers.entries few c.loop-i.invariant.stands }

pub loop-i-preserved : goal.loop-i-preserved
loop-i-preserved c =
    let hdus : List HduState = c.loop-i.hdus.items in
    let i = c.loop-i.i in
    let old : HduState = c.index_mut-hdu.result.now in
    let read : HduState = c.extension_name-name.new.self in
    let new : HduState = with_entry read c.in_ok-entry.entry in
    let r = c.extension_name-name.ensures.work in
    let within : i < length hdus = omega (arith, c.loop-i-test.true, c.len-i-end.ensures, c.loop-i.invariant.count, c.args.hdus.now.ok.0) in
    let lasts = lasts_read old read name_reads c.extension_name-name.ensures.described r in
    rw c.set_entry.ensures (record {
      hdus = hdus_of-same hdus i old new within c.index_mut-hdu.ensures.value (parts_read old read name_reads r) ∙ c.loop-i.invariant.hdus;
      absences = absences_of-same hdus i old new within c.index_mut-hdu.ensures.value r.absent ∙ c.loop-i.invariant.absences;
      count = length-set hdus i new ∙ c.loop-i.invariant.count;
      rest = rest_after hdus c.args.hdus.now.items i new c.loop-i.invariant.rest;
      stands =
          one_more_stands hdus i new c.loop-i.counts.numbers.entries c.enter.new.self.numbers.entries within c.loop-i.invariant.stands
          (entered_as c.loop-i.counts.numbers.entries c.enter.new.self.numbers.entries c.extension_name-name.result c.in_ok-entry.entry new (name_kept old read name_reads r ∙ sym c.extension_name-name.ensures.value) refl c.in_ok-entry.ensures.ok);
      described = all_more IsDescribed hdus i new within c.loop-i.invariant.described lasts.described;
      had = λ holding all. let had = c.loop-i.invariant.had holding all in had_named holding hdus i old read c.in_ok-entry.entry name_reads within c.index_mut-hdu.ensures.value r had;
      opened = λ opened. all_more (IsOpened name_reads) hdus i new within (c.loop-i.invariant.opened opened)
          (opened_more old read c.in_ok-entry.entry
          (subst (IsOpened 0) (sym (first_after hdus c.args.hdus.now.items i old c.loop-i.invariant.rest c.index_mut-hdu.ensures.value)) (opened i old (omega (arith, within, c.loop-i.invariant.count)))) r);
    })

pub returns-clause-stands : goal.returns-clause-stands
returns-clause-stands c =
    let all : take c.loop-i.i c.loop-i.hdus.items ≡ c.loop-i.hdus.items = take_all c.loop-i.i c.loop-i.hdus.items (omega (arith, c.loop-i-test.false, c.len-i-end.ensures, c.loop-i.invariant.count, c.args.hdus.now.ok.0)) in
    IfOk-weaker c.of.result _ _ (λ table names. subst (Stands c.loop-i.hdus.items) (sym names) (subst (λ (us : List HduState). Stands us c.loop-i.counts.numbers.entries) all c.loop-i.invariant.stands)) c.of.ensures.names

pub returns-clause-room : goal.returns-clause-room
returns-clause-room c = IfOk-weaker c.of.result _ _ (λ table room. omega (arith, room, c.len.ensures, c.loop-i.hdus.ok.0)) c.of.ensures.room

pub returns-clause-described : goal.returns-clause-described
returns-clause-described c =
    let all : take c.loop-i.i c.loop-i.hdus.items ≡ c.loop-i.hdus.items = take_all c.loop-i.i c.loop-i.hdus.items (omega (arith, c.loop-i-test.false, c.len-i-end.ensures, c.loop-i.invariant.count, c.args.hdus.now.ok.0)) in
    ok_or c.of.result (subst (All IsDescribed) all c.loop-i.invariant.described)

pub returns-clause-had : goal.returns-clause-had
returns-clause-had c holding all = ok_or c.of.result (c.loop-i.invariant.had holding all)

pub returns-clause-hdus : goal.returns-clause-hdus
returns-clause-hdus c = ok_or c.of.result c.loop-i.invariant.hdus

pub returns-clause-opened : goal.returns-clause-opened
returns-clause-opened c opened =
    let all : take c.loop-i.i c.loop-i.hdus.items ≡ c.loop-i.hdus.items = take_all c.loop-i.i c.loop-i.hdus.items (omega (arith, c.loop-i-test.false, c.len-i-end.ensures, c.loop-i.invariant.count, c.args.hdus.now.ok.0)) in
    ok_or c.of.result (subst (All (IsOpened name_reads)) all (c.loop-i.invariant.opened opened))

pub returns-clause-absences : goal.returns-clause-absences
returns-clause-absences c = ok_or c.of.result c.loop-i.invariant.absences
