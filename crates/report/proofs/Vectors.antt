-- A heading of each style and blocks of some levels, by computation. Assumes nothing.
use mathlib.Core.Path.{◌≡◌, refl}
use mathlib.Core.List.{◌++◌}
use lib.IntN.{pos, negsuc}
use Rattle.survey.specs.declared.refusal.Refusal.TheVariants.{Number, Room}
use Rattle.std.specs.Prelude.{Ok, Err}
use Rattle.shapes.specs.Bytes.{digits_of, value_bytes}
use Rattle.forms.specs.Written.{written}
use Rattle.survey.specs.Limits.{most_ground}
use Rattle.formats.proofs.Examples.{bytes}
use Rattle.report.specs.Report.{heading_of, block_of}
use Rattle.report.specs.Writer.{heading_answer, block_answer}

straight_is : heading_of 0 ++ block_of (pos 5) 794560 254016 ≡ bytes "served=1\nstyle=straight\nlevel=5\nserved=794560\nunserved=254016\n"
unfolding heading_of block_of written digits_of value_bytes
straight_is = refl

smooth_is : heading_of 1 ≡ bytes "served=1\nstyle=smooth\n"
unfolding heading_of written digits_of value_bytes
smooth_is = refl

below_is : block_of (negsuc 32766) most_ground 0 ≡ bytes "level=-32767\nserved=2198486417408\nunserved=0\n"
unfolding block_of written digits_of value_bytes
below_is = refl

-- A style that is none, levels and figures past their ranges, a room one byte short and one that suffices.
answers-are : (heading_answer 2 1000 ≡ Err Number)
    × (block_answer (pos 32768) 0 0 1000 ≡ Err Number)
    × (block_answer (negsuc 32767) 0 0 1000 ≡ Err Number)
    × (block_answer (pos 5) 2198486417409 0 1000 ≡ Err Number)
    × (block_answer (pos 5) 0 2198486417409 1000 ≡ Err Number)
    × (block_answer (pos 5) 20 4 28 ≡ Err Room)
    × (block_answer (pos 5) 20 4 29 ≡ Ok 29)
unfolding heading_answer block_answer block_of written digits_of value_bytes
answers-are = (refl, refl, refl, refl, refl, refl, refl)
