pub mod Roles
pub mod Seen
pub mod Stored
pub mod Mounted
pub mod Transaction
pub mod TransactionLaws
