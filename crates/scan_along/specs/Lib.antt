-- What the points of a grid row go by of a station's wind, and their sizes. Proved.
pub mod Streak
