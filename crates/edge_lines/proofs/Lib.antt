pub mod WholeScripts
