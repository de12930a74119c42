-- Line records, and the bytes of a block's parts.
pub mod Records
pub mod Bytes
