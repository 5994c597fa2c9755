pub mod Maximise
