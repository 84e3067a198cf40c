pub mod FirstFound
pub mod SpotFaults
pub mod UnknownKeys
pub mod HintFaults
