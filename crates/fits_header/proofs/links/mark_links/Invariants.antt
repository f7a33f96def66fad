use Rattle.std.proofs.Common.{◌≡◌, ◌++◌, length, map, take, drop}
use Rattle.fits_codes.specs.declared.surrounding.Surrounding.{Surrounding}
use Rattle.fits_header.specs.Links.{links_from}
use Rattle.fits_header.specs.Notes.{links_in, strings_in}
use Rattle.fits_header.proofs.links.mark_links.Given as goal

abbrev pub invariant-loop-index : goal.invariant-loop-index
invariant-loop-index l = record {
  len : length l.surroundings ≡ length l.fn.surroundings;
  links : map (λ (s : Surrounding). s.is_link) (take l.index l.surroundings) ++ links_from l.is_open (map strings_in (drop l.index l.notes.items)) ≡ links_in l.notes.items;
}
