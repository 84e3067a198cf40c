pub mod Clients
pub mod Simulation
