pub mod Ends
pub mod Overwritten
pub mod RecordsTold
