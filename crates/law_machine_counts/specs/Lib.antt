pub mod AtPlaces
