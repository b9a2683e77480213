pub mod TurnLaws
pub mod TakenLaws
pub mod RoomLaws
pub mod NextLaws
