use Rattle.std.proofs.Common.{rules, refl, codes, arith}
use Rattle.fits_rules.proofs.LeadCardLemmas.{lead_before, lead_next}
use Rattle.fits_rules.proofs.shape_leads.ShapeLeads.find.Goals as goal

pub loop-index-init : goal.loop-index-init
loop-index-init c =
    let cards = c.args.cards.now.header.cards in
    record {
      work = record { header = refl; room = refl; least = omega arith; most = omega arith };
      leads = record { groups = lead_before cards (codes "GROUPS  "); pcount = lead_before cards (codes "PCOUNT  "); gcount = lead_before cards (codes "GCOUNT  ") };
    }

pub loop-index-preserved : goal.loop-index-preserved
loop-index-preserved c =
    let cards = c.args.cards.now.header.cards in
    let i = c.loop-index.index in
    let leads = c.loop-index.invariant.leads in
    record {
      work = search rules;
      leads = record {
        groups = lead_next cards (codes "GROUPS  ") c.card-card.result i _ _ (search rules) (search rules) leads.groups c.note.ensures;
        pcount = lead_next cards (codes "PCOUNT  ") c.card-card.result i _ _ (search rules) (search rules) leads.pcount c.note-in-loop-index.ensures;
        gcount = lead_next cards (codes "GCOUNT  ") c.card-card.result i _ _ (search rules) (search rules) leads.gcount c.note-in-loop-index-2.ensures;
      };
    }
