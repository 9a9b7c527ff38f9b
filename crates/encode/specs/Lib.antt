pub mod Put
pub mod PutLaws
pub mod Said
pub mod SaidLaws
pub mod ScalarLaws
pub mod Size
pub mod SizeLaws
