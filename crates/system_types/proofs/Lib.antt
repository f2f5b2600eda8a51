pub mod RaisedFlag
pub mod Indexed
pub mod Served
