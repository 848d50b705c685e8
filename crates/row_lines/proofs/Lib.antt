pub mod PuttingRows
