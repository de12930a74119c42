-- The numbers with which a text is refused.
pub mod FaultLaws
