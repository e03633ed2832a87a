pub mod Marker
