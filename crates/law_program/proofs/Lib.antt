mod OfPlayedCalls
mod OfWholeCalls
