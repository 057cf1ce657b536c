pub mod Softmax
