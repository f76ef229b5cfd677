pub mod SizedLaws
pub mod TablesLaws
