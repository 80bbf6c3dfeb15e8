pub mod Data
pub mod Locals
pub mod Answers
pub mod Walk
pub mod Behind
pub mod Loans
pub mod Lending
pub mod Facts
