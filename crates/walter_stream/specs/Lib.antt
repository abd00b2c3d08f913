pub mod Memory
pub mod ReadError
pub mod StdSink
pub mod StdSource
pub mod Streams
