pub mod Ascii
