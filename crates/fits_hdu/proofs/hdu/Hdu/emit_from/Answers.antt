use Rattle.std.proofs.lemmas.Result.{IfErr-weaker, on_ok_weaker}
use Rattle.fits_card.specs.Header.{header_bytes}
use Rattle.fits_stream.proofs.StreamLemmas.{Prints-more}
use Rattle.fits_hdu.proofs.PassedLemmas.{copy_more, like_more, writes_more}
use Rattle.fits_hdu.proofs.hdu.Hdu.emit_from.Goals as goal

pub returns-clause-ok : goal.returns-clause-ok
returns-clause-ok g c = λ xs is lie.
    let own = rw (← c.self.view_is) at lie in
    rw (← c.self.view_is) (on_ok_weaker c.emit_from.result (λ p. Prints-more _ _ _ _ _ c.in-Ok.ensures.ok p) (c.emit_from.ensures.ok xs is own))

pub returns-clause-like : goal.returns-clause-like
returns-clause-like g c =
    let header = c.self.inside.header.header in
    let unit = c.self.inside.unit in
    rw (← c.self.view_is) (on_ok_weaker c.emit_from.result (like_more header unit.plane.bytes unit.absent _ _ _ c.len-whole_words.ensures.whole c.in-Ok.ensures.ok) c.emit_from.ensures.like)

pub returns-clause-err : goal.returns-clause-err
returns-clause-err g c = λ xs is lie.
    let header = c.self.inside.header.header in
    let own = rw (← c.self.view_is) at lie in
    rw (← c.self.view_is) (IfErr-weaker c.emit_from.result _ _ (λ why fails. copy_more (header_bytes header) _ _ _ _ why c.in-Ok.ensures.ok fails) (c.emit_from.ensures.err xs is own))

pub returns-clause-writes : goal.returns-clause-writes
returns-clause-writes g c = IfErr-weaker c.emit_from.result _ _ (λ why wrote. writes_more (header_bytes c.self.inside.header.header) _ _ _ why c.in-Ok.ensures.ok wrote) c.emit_from.ensures.writes

pub returns-clause-copied : goal.returns-clause-copied
returns-clause-copied g c = rw (← c.self.view_is) (on_ok_weaker c.emit_from.result (λ unit. record { unit = unit.bytes; are = unit.are; written = Prints-more _ _ _ _ unit.bytes c.in-Ok.ensures.ok unit.written; looked = unit.looked }) c.emit_from.ensures.copied)
