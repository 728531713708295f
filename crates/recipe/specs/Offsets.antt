-- Which offsets a recipe takes. Assumes nothing.
use Rattle.std.specs.Prelude.{Bool, ◌&&◌, ℤ, pos, negsuc, int_le}
use Rattle.raster.specs.declared.offsets.Offsets.{Offsets}

-- from -255 to 255, the first not above the second
abbrev pub in_reach : (from to : ℤ) → Bool
in_reach from to = int_le (negsuc 254) from && int_le from to && int_le to (pos 255)

abbrev pub lawful : Offsets → Bool
lawful o = in_reach o.left o.right && in_reach o.up o.down
