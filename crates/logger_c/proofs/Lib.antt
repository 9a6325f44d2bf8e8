pub mod Loadings
