-- The stages, a file each under the Rust's name.
pub mod Ar2
pub mod Up2Hq
pub mod IirFir
pub mod DownFir
pub mod Down2
pub mod Down2_3
pub mod AnaFiltBank1
