-- The classes of HDUs (FITS Standard 4.0, sections 3.3, 3.4, 6 and 7).
use Rattle.std.specs.Prelude.{ℕ, Bool, true, false, List, Option, None, Some, codes, if◌then◌else◌}
use Rattle.std.specs.Str.{bytes_eq}
use Rattle.fits_rules.specs.declared.class.Class.{Class}
use Rattle.fits_rules.specs.declared.class.Class.TheVariants.{Primary, Groups, Image, Table, Other}

-- it is a class of the first HDU (3.3)
abbrev pub is_primary : Class → Bool
is_primary Primary = true
is_primary Groups = true
is_primary class = false

-- PCOUNT and GCOUNT count in extensions and random groups, and in no other primary HDU (4.4.1.2, 6)
abbrev pub has_counts : Class → Bool
has_counts Primary = false
has_counts class = true

-- the class of an extension, by the string of its XTENSION card (7.1, 7.2)
abbrev pub extension_class : Option (List ℕ) → Class
extension_class None = Other
extension_class (Some text) = if bytes_eq text (codes "IMAGE") then Image else (if bytes_eq text (codes "TABLE") then Table else Other)
