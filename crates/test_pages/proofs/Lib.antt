pub mod LawfulDozen
pub mod LawfulTwelve
