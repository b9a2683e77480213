pub mod Preparation
