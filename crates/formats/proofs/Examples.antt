-- Every text read and written by computation: document 01's in each edition, and faults with their lines. Assumes nothing.
use mathlib.Core.Path.{◌≡◌, refl}
use mathlib.Core.List.{List, [], ◌∷◌, ◌++◌}
use Prim.Native.Nat.{ℕ, zero, suc}
use Prim.Native.Char.{code}
use Prim.Native.String.{String, [] as empty, ◌∷◌ as ◌and◌}
use Rattle.shapes.specs.Line.{read, said, is_used}
use Rattle.shapes.specs.Bytes.{digits_of, digits, value_bytes}
use Rattle.forms.specs.Form.{Form, feed, right, fault, read_by}
use Rattle.forms.specs.Written.{written}
use Rattle.formats.specs.Surveys.{level_lines, stations, survey1, survey2, survey3, levelset1}
use Rattle.formats.specs.Contours.{vertices, drawn, further, contours1, contours2}
use Rattle.formats.specs.Reports.{grounds, served1, logged, walk1, refusal}

-- A text that is spelled out.
abbrev pub bytes : String → List ℕ
bytes empty = []
bytes (c and s) = code c ∷ bytes s

-- The text is read as the values, and they are written as it.
abbrev Says : Form → List ℕ → List ℕ → Type 0
Says f t vs = (read_by f t ≡ right vs) × (written f vs ≡ t)

-- 7 at a line.
abbrev Wrong : Form → List ℕ → ℕ → Type 0
Wrong f t k = read_by f t ≡ fault 7 k

-- ---- survey text

-- Document 01's survey: its heading, two stations, the third, its level; and the values of its stations.
abbrev heading : List ℕ
heading = bytes "survey=1\nstyle=straight\npoints=3\n"

abbrev two : List ℕ
two = bytes "tag=A7\nx=0\ny=0\nz=0\ntag=a7\nx=8\ny=0\nz=10\n"

abbrev third : List ℕ
third = bytes "tag=B1\nx=0\ny=8\nz=10\n"

abbrev level : List ℕ
level = bytes "levels=1\nlevel=5\n"

abbrev three : List ℕ
three = 0 ∷ 3 ∷ 0x4137 ∷ 0 ∷ 0 ∷ 32768 ∷ 0x6137 ∷ 8 ∷ 0 ∷ 32778 ∷ 0x4231 ∷ 0 ∷ 8 ∷ 32778 ∷ []

-- Its levels missing; a tag used before, with its number; '8 competes by its line number': x=8192 before it.
surveys : Says survey1 (heading ++ two ++ third ++ level) (1 ∷ three ++ (1 ∷ 32773 ∷ []))
    × Wrong survey1 (heading ++ two ++ third) 16
    × (read_by survey1 (heading ++ two ++ bytes "tag=A7\nx=0\ny=8\nz=10\n" ++ level) ≡ fault 8 12)
    × Wrong survey1 (heading ++ bytes "tag=A7\nx=0\ny=0\nz=0\ntag=a7\nx=8192\ny=0\nz=10\ntag=A7\n") 9
unfolding feed read said is_used stations level_lines written value_bytes digits_of
surveys = ((refl, refl), refl, refl, refl)

-- 'Text starting survey=2 has no levels lines': they are left over. An older reader meets it with 7 at line 1. 'void=0 or void=1 after z',
-- and no void=2.
abbrev second : List ℕ
second = bytes "survey=2\nstyle=straight\npoints=3\n" ++ two ++ third

editions : Says survey2 second (2 ∷ three) × Wrong survey2 (second ++ level) 16 × Wrong survey1 second 1
    × Says survey3
    (bytes "survey=3\nstyle=smooth\npoints=3\ntag=A7\nx=0\ny=0\nz=0\nvoid=0\ntag=a7\nx=8\ny=0\nz=10\nvoid=1\ntag=B1\nx=0\ny=8\nz=10\nvoid=0\n")
    (3 ∷ 1 ∷ 3 ∷ 0x4137 ∷ 0 ∷ 0 ∷ 32768 ∷ 0 ∷ 0x6137 ∷ 8 ∷ 0 ∷ 32778 ∷ 1 ∷ 0x4231 ∷ 0 ∷ 8 ∷ 32778 ∷ 0 ∷ [])
    × Wrong survey3 (bytes "survey=3\nstyle=smooth\npoints=3\ntag=A7\nx=0\ny=0\nz=0\nvoid=2\n") 8
unfolding feed read said is_used stations level_lines written value_bytes digits_of
editions = ((refl, refl), refl, refl, (refl, refl), refl)

-- A level again; a missing line, a leftover, and a last line without LF. Above the highest level there is none: its line is as expected, and
-- the next is missing.
levels : Says levelset1 (bytes "levelset=1\nlevels=2\nlevel=-5\nlevel=7\n") (1 ∷ 2 ∷ 32763 ∷ 32775 ∷ [])
    × Wrong levelset1 (bytes "levelset=1\nlevels=2\nlevel=-5\nlevel=-5\n") 4
    × Wrong levelset1 (bytes "levelset=1\nlevels=2\nlevel=-5\n") 4
    × Wrong levelset1 (bytes "levelset=1\nlevels=1\nlevel=-5\n\n") 4
    × Wrong levelset1 (bytes "levelset=1\nlevels=1\nlevel=7") 3
    × Wrong levelset1 (bytes "levelset=1\nlevels=2\nlevel=32767\n") 4
unfolding feed read said is_used level_lines written value_bytes digits_of
levels = ((refl, refl), refl, refl, refl, refl, refl)

-- ---- contour text

-- Document 01's lines: the heading with the level, and the line.
abbrev contour : List ℕ
contour = bytes "contours=1\nstyle=straight\nlevel=5\n"

abbrev drawing : List ℕ
drawing = bytes "lines=1\nkind=open\nvertices=2\nx=504\ny=0\nx=0\ny=504\n"

-- The levels 1 to n, none with a line.
abbrev flat : ℕ → List ℕ
flat zero = []
flat (suc n) = flat n ++ bytes "level=" ++ digits (suc n) ++ bytes "\nlines=0\n"

-- 'Further levels repeat from the level line', rising, 1 to 64 of them: a level again, none at all, a 65th.
contours : Says contours1 (contour ++ drawing) (1 ∷ 0 ∷ 32773 ∷ 1 ∷ 0 ∷ 2 ∷ 504 ∷ 0 ∷ 0 ∷ 504 ∷ [])
    × Says contours1 (contour ++ bytes "lines=0\nlevel=7\nlines=0\n") (1 ∷ 0 ∷ 32773 ∷ 0 ∷ 32775 ∷ 0 ∷ [])
    × Wrong contours1 (contour ++ drawing ++ bytes "level=5\nlines=0\n") 11
    × Wrong contours1 (bytes "contours=1\nstyle=straight\n") 3
    × Wrong contours1 (bytes "contours=1\nstyle=straight\n" ++ flat 65) 131
unfolding feed read said is_used drawn vertices further written value_bytes digits_of
contours = ((refl, refl), (refl, refl), refl, refl, refl)

-- 'fewer than 2 vertices in an open line or 3 in a closed one', 'the vertices or lines line that passes the limit', x beyond 1,048,448.
spoiled : Wrong contours1 (contour ++ bytes "lines=1\nkind=open\nvertices=1\n") 6
    × Wrong contours1 (contour ++ bytes "lines=1\nkind=closed\nvertices=2\n") 6
    × Wrong contours1 (contour ++ bytes "lines=1534\n") 4
    × Wrong contours1 (contour ++ bytes "lines=2\nkind=open\nvertices=2\nx=504\ny=0\nx=0\ny=504\nkind=open\nvertices=3065\n") 12
    × Wrong contours1 (contour ++ bytes "lines=1\nkind=open\nvertices=2\nx=1048449\n") 7
unfolding feed read said is_used drawn vertices further
spoiled = (refl, refl, refl, refl, refl)

-- 'exact=0 or exact=1 after each y': no exact=2, and none left out.
marks : Says contours2 (bytes "contours=2\nstyle=straight\nlevel=5\nlines=1\nkind=open\nvertices=2\nx=504\ny=0\nexact=0\nx=0\ny=504\nexact=1\n")
    (2 ∷ 0 ∷ 32773 ∷ 1 ∷ 0 ∷ 2 ∷ 504 ∷ 0 ∷ 0 ∷ 0 ∷ 504 ∷ 1 ∷ [])
    × Wrong contours2 (bytes "contours=2\nstyle=straight\nlevel=5\nlines=1\nkind=open\nvertices=2\nx=504\ny=0\nexact=2\n") 9
    × Wrong contours2 (bytes "contours=2\nstyle=straight\nlevel=5\n" ++ drawing) 9
unfolding feed read said is_used drawn vertices further written value_bytes digits_of
marks = ((refl, refl), refl, refl)

-- ---- served ground, a walk, a refusal

-- More ground than the largest hull has; 'points from 1 to 65,535', an entry missing; 'only refused=N / at=M'.
reports : Says served1 (bytes "served=1\nstyle=smooth\nlevel=5\nserved=20\nunserved=4\nlevel=7\nserved=0\nunserved=24\n")
    (1 ∷ 1 ∷ 32773 ∷ 20 ∷ 4 ∷ 32775 ∷ 0 ∷ 24 ∷ [])
    × Wrong served1 (bytes "served=1\nstyle=smooth\nlevel=5\nserved=2198486417409\n") 4
    × Says walk1 (bytes "walk=1\npoints=1\nx=4\ny=4\nz=-6\n") (1 ∷ 1 ∷ 4 ∷ 4 ∷ 32762 ∷ [])
    × Wrong walk1 (bytes "walk=1\npoints=0\n") 2
    × Wrong walk1 (bytes "walk=1\npoints=2\nx=4\ny=4\nz=-6\n") 6
    × Says refusal (bytes "refused=8\nat=12\n") (8 ∷ 12 ∷ [])
    × Wrong refusal (bytes "refused=8\nat=12\nrefused=8\n") 3
unfolding feed read said is_used grounds logged written value_bytes digits_of
reports = ((refl, refl), refl, (refl, refl), refl, refl, (refl, refl), refl)
