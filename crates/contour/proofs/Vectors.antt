-- The worked example of document 01, "Text", and blocks of other levels, by computation. Assumes nothing.
use mathlib.Core.Path.{◌≡◌, refl}
use mathlib.Core.List.{[], ◌∷◌, ◌++◌}
use lib.IntN.{pos, negsuc}
use Rattle.survey.specs.declared.refusal.Refusal.TheVariants.{Count, Number, Room}
use Rattle.std.specs.Prelude.{Ok, Err}
use Rattle.shapes.specs.Bytes.{digits_of, value_bytes}
use Rattle.forms.specs.Written.{written}
use Rattle.formats.specs.Contours.{vertices, drawn}
use Rattle.formats.proofs.Examples.{bytes}
use Rattle.contour.specs.Contour.{heading_of, block_of, refusal_of}
use Rattle.contour.specs.Writer.{heading_answer, block_answer}

-- 'contours=1 / style=straight / level=5 / lines=1 / kind=open / vertices=2 / x=504 / y=0 / x=0 / y=504'
example_is : heading_of 0 ++ block_of (pos 5) (4 ∷ []) (504 ∷ 0 ∷ []) (0 ∷ 504 ∷ [])
    ≡ bytes "contours=1\nstyle=straight\nlevel=5\nlines=1\nkind=open\nvertices=2\nx=504\ny=0\nx=0\ny=504\n"
unfolding heading_of block_of written digits_of value_bytes vertices drawn
example_is = refl

smooth_is : heading_of 1 ≡ bytes "contours=1\nstyle=smooth\n"
unfolding heading_of written digits_of value_bytes
smooth_is = refl

none_is : block_of (negsuc 11) [] [] [] ≡ bytes "level=-12\nlines=0\n"
unfolding block_of written digits_of value_bytes vertices drawn
none_is = refl

closed_is : block_of (pos 5) (9 ∷ []) (252 ∷ 252 ∷ 772 ∷ 772 ∷ []) (252 ∷ 772 ∷ 772 ∷ 252 ∷ [])
    ≡ bytes "level=5\nlines=1\nkind=closed\nvertices=4\nx=252\ny=252\nx=252\ny=772\nx=772\ny=772\nx=772\ny=252\n"
unfolding block_of written digits_of value_bytes vertices drawn
closed_is = refl

two-are : block_of (pos 5) (4 ∷ 4 ∷ []) (504 ∷ 0 ∷ 1024 ∷ 520 ∷ []) (0 ∷ 504 ∷ 520 ∷ 1024 ∷ [])
    ≡ bytes "level=5\nlines=2\nkind=open\nvertices=2\nx=504\ny=0\nx=0\ny=504\nkind=open\nvertices=2\nx=1024\ny=520\nx=520\ny=1024\n"
unfolding block_of written digits_of value_bytes vertices drawn
two-are = refl

refused_is : refusal_of 8 16 ≡ bytes "refused=8\nat=16\n"
unfolding refusal_of written digits_of value_bytes
refused_is = refl

-- A style that is none, a record that counts a vertex more, a closed line of two vertices and an open one of one, a level and a coordinate
-- past their ranges, a room one byte short and one that suffices.
answers-are : (heading_answer 2 1000 ≡ Err Number)
    × (block_answer (pos 5) (6 ∷ []) (504 ∷ 0 ∷ []) (0 ∷ 504 ∷ []) 1000 ≡ Err Count)
    × (block_answer (pos 5) (5 ∷ []) (504 ∷ 0 ∷ []) (0 ∷ 504 ∷ []) 1000 ≡ Err Count)
    × (block_answer (pos 5) (2 ∷ []) (504 ∷ []) (0 ∷ []) 1000 ≡ Err Count)
    × (block_answer (pos 5) (4 ∷ []) (504 ∷ 0 ∷ []) (0 ∷ 1048449 ∷ []) 1000 ≡ Err Number)
    × (block_answer (pos 32768) [] [] [] 1000 ≡ Err Number)
    × (block_answer (pos 5) [] [] [] 15 ≡ Err Room)
    × (block_answer (pos 5) [] [] [] 16 ≡ Ok 16)
unfolding heading_answer block_answer block_of written digits_of value_bytes vertices drawn
answers-are = (refl, refl, refl, refl, refl, refl, refl, refl)
