pub mod DirShelf
pub mod Faults
pub mod MemoryShelf
pub mod MemorySink
pub mod OutSink
pub mod Shelf
pub mod Sink
