-- `coefficients_of` meets its contract: what each step is given is what the one before it gave. Assumes nothing.
use mathlib.Core.Path.{◌∙◌}
use Rattle.quintic.specs.Real.{◌⊟◌, ◌⊠◌, half}
use Rattle.quintic.specs.Quintic.{steep_of, p41_of, p14_of, mixed_of, m_of, middle_of, coefficients}
use Rattle.quintic.proofs.StepLaws.{us-within, sv-within, as_named, lent-named}
use Rattle.quintic.proofs.coefficients_of.Goals as goal

pub exchange-turned1-requires : goal.exchange-turned1-requires
exchange-turned1-requires c = tt

pub exchange-turned3-requires : goal.exchange-turned3-requires
exchange-turned3-requires c = tt

pub steep_from-along_u-requires : goal.steep_from-along_u-requires
steep_from-along_u-requires c = tt

pub steep_from-along_v-requires : goal.steep_from-along_v-requires
steep_from-along_v-requires c = tt

pub p41_of-p41-requires : goal.p41_of-p41-requires
p41_of-p41-requires c = c.requires

pub p14_of-p14-requires : goal.p14_of-p14-requires
p14_of-p14-requires c = c.requires

pub mixed_from-at_2-requires : goal.mixed_from-at_2-requires
mixed_from-at_2-requires c = tt

pub mixed_from-at_3-requires : goal.mixed_from-at_3-requires
mixed_from-at_3-requires c = tt

pub us_of-us-requires : goal.us_of-us-requires
us_of-us-requires c = c.requires

pub sv_of-sv-requires : goal.sv_of-sv-requires
sv_of-sv-requires c = c.requires

pub m_of-requires : goal.m_of-requires
m_of-requires c =
    let of-us = lent-named c.us_of-us.ensures (us-within c.args.e c.requires) tt tt in
    let of-sv = lent-named c.sv_of-sv.ensures (sv-within c.args.e c.requires) tt tt in
    (of-us, of-sv)

pub middle_from-last-requires : goal.middle_from-last-requires
middle_from-last-requires c =
    let of-us = lent-named c.us_of-us.ensures (us-within c.args.e c.requires) tt tt in
    let of-sv = lent-named c.sv_of-sv.ensures (sv-within c.args.e c.requires) tt tt in
    (of-us, of-sv)

pub returns : goal.returns
unfolding coefficients
returns c =
    let e = c.args.e in
    let k1 = c.args.k1 in
    let k2 = c.args.k2 in
    let k3 = c.args.k3 in
    let turned1 = c.exchange-turned1.ensures in
    let turned3 = c.exchange-turned3.ensures in
    let u = c.steep_from-along_u.ensures in
    let v = c.steep_from-along_v.ensures ∙ (λ j. steep_of (turned1 j) (turned3 j)) in
    let p41 = c.p41_of-p41.ensures ∙ (λ j. p41_of e (u j).p50) in
    let p14 = c.p14_of-p14.ensures ∙ (λ j. p14_of e (v j).p50) in
    let at-2 = c.mixed_from-at_2.ensures ∙ (λ j. mixed_of k1 k2 (p41 j)) in
    let at-3 = c.mixed_from-at_3.ensures ∙ (λ j. mixed_of (turned1 j) (turned3 j) (p14 j)) in
    let us-is = as_named c.us_of-us.ensures (us-within e c.requires) tt in
    let sv-is = as_named c.sv_of-sv.ensures (sv-within e c.requires) tt in
    let m = c.m_of.ensures ∙ (λ j. m_of (us-is j) (sv-is j) (u j).p50 (p41 j) (p14 j) (v j).p50) in
    let p20 = half ⊠ k1.zuu in
    let p02 = half ⊠ k1.zvv in
    let last =
    c.middle_from-last.ensures
    ∙ (λ j. middle_of (us-is j) (sv-is j) (half ⊠ k2.zvv ⊟ p02 ⊟ (at-3 j).p21) (half ⊠ k3.zuu ⊟ p20 ⊟ (at-2 j).p21) (m j)) in
    λ j.
    record {
      p00 = k1.z;
      p01 = k1.zv;
      p02 = p02;
      p03 = (v j).p30;
      p04 = (v j).p40;
      p05 = (v j).p50;
      p10 = k1.zu;
      p11 = k1.zuv;
      p12 = (at-3 j).p21;
      p13 = (at-3 j).p31;
      p14 = p14 j;
      p20 = p20;
      p21 = (at-2 j).p21;
      p22 = (last j).p22;
      p23 = (last j).p23;
      p30 = (u j).p30;
      p31 = (at-2 j).p31;
      p32 = (last j).p32;
      p40 = (u j).p40;
      p41 = p41 j;
      p50 = (u j).p50;
    }
