-- SignedLaws, NormalLaws, SumLaws: signed numbers of calls; every sum fits; NZ is above 0. NzLaws: NZ is that of the places alone.
pub mod SignedLaws
pub mod NormalLaws
pub mod SumLaws
pub mod NzLaws
