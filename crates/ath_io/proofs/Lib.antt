mod Streams
pub mod Told
