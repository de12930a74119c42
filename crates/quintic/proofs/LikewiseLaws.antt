-- What 'likewise' says, written out for corner 3 and v. Assumes nothing.
--
-- The definition takes the steps of corner 2 with the corners' u and v exchanged; here stands what that gives, letter by letter.
use mathlib.Core.Path.{◌≡◌, refl}
use lib.Ieee.{Float}
use Rattle.quintic.specs.declared.Steps.{Steps}
use Rattle.quintic.specs.declared.Corner.{Corner}
use Rattle.quintic.specs.Real.{◌⊞◌, ◌⊟◌, ◌⊠◌, half, two, three, four, six, seven, ten, fifteen, minus}
use Rattle.quintic.specs.Quintic.{steep_of, mixed_of, coefficients}

module _ (e : Steps) (k1 k2 k3 : Corner) where
  -- h1 = z3-p00-p01-p02, h2 = zv3-p01-zvv1, h3 = zvv3-zvv1
  abbrev h1 : Float
  h1 = k3.z ⊟ k1.z ⊟ k1.zv ⊟ half ⊠ k1.zvv

  abbrev h2 : Float
  h2 = k3.zv ⊟ k1.zv ⊟ k1.zvv

  abbrev h3 : Float
  h3 = k3.zvv ⊟ k1.zvv

  pub p03_is : (coefficients e k1 k2 k3).p03 ≡ ten ⊠ h1 ⊟ four ⊠ h2 ⊞ half ⊠ h3
  unfolding coefficients steep_of
  p03_is = refl

  pub p04_is : (coefficients e k1 k2 k3).p04 ≡ minus fifteen ⊠ h1 ⊞ seven ⊠ h2 ⊟ h3
  unfolding coefficients steep_of
  p04_is = refl

  pub p05_is : (coefficients e k1 k2 k3).p05 ≡ six ⊠ h1 ⊟ three ⊠ h2 ⊞ half ⊠ h3
  unfolding coefficients steep_of
  p05_is = refl

  -- The next two h1 and h2, 'from zu3, p10, p14 and zuv3': zu3-p10-p11-p14 and zuv3-p11-4·p14
  abbrev p14 : Float
  p14 = (coefficients e k1 k2 k3).p14

  abbrev g1 : Float
  g1 = k3.zu ⊟ k1.zu ⊟ k1.zuv ⊟ p14

  abbrev g2 : Float
  g2 = k3.zuv ⊟ k1.zuv ⊟ four ⊠ p14

  pub p12_is : (coefficients e k1 k2 k3).p12 ≡ three ⊠ g1 ⊟ g2
  unfolding coefficients mixed_of
  p12_is = refl

  pub p13_is : (coefficients e k1 k2 k3).p13 ≡ minus two ⊠ g1 ⊞ g2
  unfolding coefficients mixed_of
  p13_is = refl
