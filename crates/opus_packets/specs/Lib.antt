pub mod Cut
pub mod Form
pub mod Header
pub mod Packet
