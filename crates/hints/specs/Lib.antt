pub mod GenesisSpots
pub mod SpotView
pub mod Places
pub mod PlaceView
pub mod HintView
