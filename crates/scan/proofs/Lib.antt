pub mod Decimal
pub mod GapSteps
pub mod Numbers
pub mod Written
pub mod Form
