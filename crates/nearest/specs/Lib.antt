-- Whom a station's slopes lean on.
pub mod Places
pub mod Nearest
pub mod Four
