pub mod TwoTracks
