pub mod Idents
