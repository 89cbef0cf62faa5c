pub mod ColumnOrders
pub mod Ranges
