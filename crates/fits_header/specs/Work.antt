-- How many cards the calls of a header read at most (own).
use Rattle.std.specs.Prelude.{ℕ, ◌+◌, length}
use Rattle.fits_rules.specs.declared.array_shape.Shape.{Shape}

-- whether a shape stays is found by the first three cards, the axes and three leads
abbrev pub shape_reads : Shape → ℕ
shape_reads shape = 3 + length shape.axes + 3

-- the codes of a header as a whole are found by PCOUNT, GCOUNT, the first card and the lead of BLANK
abbrev pub mark_reads : ℕ
mark_reads = 4
