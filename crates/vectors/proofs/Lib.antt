pub mod WorkExample
