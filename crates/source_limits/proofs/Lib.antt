pub mod RoomLaws
pub mod StmtRooms
