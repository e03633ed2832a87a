pub mod Seek
