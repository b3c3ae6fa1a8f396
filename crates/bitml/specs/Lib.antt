-- What must be believed: one module for each section of document 01, and the statements that are proved of them.
pub mod Lists
pub mod Sheet
pub mod Runs
pub mod Rows
pub mod Sorting
pub mod Rule
pub mod Ledger
pub mod Limits
pub mod Balance
pub mod Promises
pub mod Liquidity
pub mod Why
pub mod Answers
pub mod Taken
pub mod Demands
pub mod Stars
