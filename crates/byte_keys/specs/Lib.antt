pub mod ByteKeys
