pub mod Endings
pub mod Operator
pub mod Pager
pub mod Service
pub mod Teller
