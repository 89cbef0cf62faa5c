pub mod KeptTables
pub mod Before
pub mod Standing
pub mod Finished
