-- PouredLaws: bytes poured one part behind the other. LowLaws: the digits of a number, counted. PutLaws: up to eight digits, by their bytes.
pub mod PouredLaws
pub mod LowLaws
pub mod PutLaws
