mod Rising
mod ToldFirst
mod Clear
mod FirstOffer
mod Live
