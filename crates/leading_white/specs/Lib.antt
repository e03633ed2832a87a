pub mod Lean
