pub mod TablesHold
