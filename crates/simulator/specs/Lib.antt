pub mod Simulator
